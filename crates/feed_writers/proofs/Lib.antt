pub mod DigitLemmas
pub mod PlainLemmas
pub mod EscapeLemmas
pub mod QuotedLemmas
pub mod ColumnLabelLemmas
pub mod BlockLemmas
pub mod LeadingZeroLemmas
