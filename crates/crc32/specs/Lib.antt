pub mod Checksums
pub mod Division
pub mod Shortening
