pub mod MagicNumberPieces
pub mod ShownRecorders
pub mod ShownTransactions
pub mod ReadLogs
pub mod LibrarySources
pub mod RecordLayouts
pub mod RecordParts
pub mod RecordedTransactions
