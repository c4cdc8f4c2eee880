pub mod Collations
pub mod Texts
