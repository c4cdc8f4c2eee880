pub mod Encoding
pub mod Eating
pub mod Numbers
pub mod Writing
pub use Rattle.wire_lenenc.specs.LenencSplit
pub mod ReadErrors
pub mod Transfers
pub mod Watched
