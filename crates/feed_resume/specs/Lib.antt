pub mod Conditions
pub mod CommitLines
pub mod Kept
pub mod LineStarts
pub mod Worked
pub mod Keepers
