pub mod CommitLemmas
pub mod LineLemmas
pub mod KeeperLemmas
