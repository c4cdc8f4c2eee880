pub mod LineSinkLemmas
pub mod LentSinkLemmas
pub mod CountSinkLemmas
pub mod FollowedLineLemmas
