pub mod PartRows
pub mod VerdictNumbers
pub mod Exports
pub mod KeptTexts
