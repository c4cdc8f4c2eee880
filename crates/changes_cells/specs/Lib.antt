pub mod DecodedTexts
pub mod ShownTimes
pub mod CellJson
pub mod FieldJson
pub mod JsonDocuments
