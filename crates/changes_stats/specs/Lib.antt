pub mod RowSums
pub mod Courses
pub mod Largest
pub mod TableNames
pub mod TableSums
pub mod CountedTransactions
pub mod RecordedCounts
