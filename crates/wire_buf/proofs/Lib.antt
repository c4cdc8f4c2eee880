pub mod EncodingLemmas
pub mod NumberLemmas
pub mod LenencLemmas
pub mod StringLemmas
pub mod WritingLemmas
pub mod TransferLemmas
