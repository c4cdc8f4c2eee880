pub mod FieldLemmas
pub mod CellLemmas
pub mod KeptLemmas
pub mod RowLemmas
pub mod CursorLemmas
pub mod ImageLemmas
