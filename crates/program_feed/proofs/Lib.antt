pub mod CommandLemmas
pub mod FollowedLemmas
