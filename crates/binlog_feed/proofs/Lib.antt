mod GtidFieldLemmas
mod LineLemmas
mod KindLemmas
mod LookingBackLemmas
mod WholeLemmas
mod CompleteReports
mod ServingLemmas
mod CellFeedLemmas
mod FeedLemmas
mod RowFeedLemmas
mod TruncationLemmas
mod RepairLemmas
mod LastCommitLemmas
mod RestLemmas
mod IndependenceLemmas
mod FollowableLemmas
pub mod ChangeFollowLemmas
pub mod AlikeCommitLemmas
pub mod ChangeRunLemmas
pub mod ApplyLemmas
