pub mod QuotedLemmas
pub mod Utf8Lemmas
pub mod StatementLemmas
pub mod NoStatementLemmas
pub mod UndoneLemmas
pub mod ReadRowLemmas
mod AddedLemmas
mod StatementTextLemmas
pub mod NewestLemmas
mod TransactionLemmas
