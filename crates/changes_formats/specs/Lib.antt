pub mod EnvelopeDocuments
pub mod EnvelopeNumbers
pub mod EnvelopeMembers
pub mod EnvelopeTexts
pub mod EpochTimes
pub mod EventNumbers
pub mod FormatLineTexts
pub mod RefusedCells
