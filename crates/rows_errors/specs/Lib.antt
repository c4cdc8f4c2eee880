pub mod ConvertedFaults
pub mod Readings
