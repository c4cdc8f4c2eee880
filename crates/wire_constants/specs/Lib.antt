pub mod Numbering
pub mod ColumnTypes
pub mod GeometryTypes
pub mod ColumnFlagBits
pub mod AllColumnTypes
