pub mod MoreConstants
pub mod StatusVarKeys
pub mod Conversions
