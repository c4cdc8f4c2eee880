pub mod DataLemmas
pub mod RawLemmas
pub mod DataEquality
pub mod FileLemmas
pub mod EventLemmas
pub mod WholeLemmas
pub mod ReadingLemmas
pub mod EqualLemmas
