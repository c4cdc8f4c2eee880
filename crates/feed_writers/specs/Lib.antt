pub mod Quoting
pub mod PlainBytes
pub mod QuotedFields
pub mod TimesOfDay
