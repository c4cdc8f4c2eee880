pub mod Found
pub mod WrittenJson
