pub mod CellJsonLemmas
pub mod TextListLemmas
pub mod ReadRowLemmas
mod NumberedRowLemmas
pub mod UpdateLemmas
pub mod WriteLemmas
pub mod TableLemmas
pub mod BeginLemmas
pub mod RecorderLemmas
pub mod ReadCellLemmas
pub mod RowReadLemmas
pub mod ShortRowLemmas
