pub mod KeptJson
pub mod ResumePoints
pub mod LineKeepers
pub mod FoundJson
pub mod TransactionLines
pub mod WorkedLines
