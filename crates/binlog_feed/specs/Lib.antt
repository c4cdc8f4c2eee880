pub use Rattle.feed_checks.specs.PastLists
pub use Rattle.feed_checks.specs.Readers
pub use Rattle.feed_checks.specs.BodyReaders
pub use Rattle.feed_checks.specs.EventFields
pub use Rattle.feed_transactions.specs.MappedRows
pub use Rattle.feed_transactions.specs.RowLines
pub use Rattle.feed_checks.specs.Kinds
pub use Rattle.feed_checks.specs.KindViews
pub use Rattle.feed_transactions.specs.Checks
pub use Rattle.feed_transactions.specs.Transactions
pub use Rattle.feed_transactions.specs.Rules
pub use Rattle.feed_transactions.specs.TransactionTexts
pub use Rattle.feed_checks.specs.Sums
pub use Rattle.feed_transactions.specs.FeedStates
pub use Rattle.feed_transactions.specs.FeedSteps
pub use Rattle.feed_checks.specs.SplitEvents
pub use Rattle.feed_transactions.specs.ReportLaws
pub mod WorkedEvents
pub use Rattle.feed_checks.specs.Verdicts
pub use Rattle.feed_checks.specs.LogFormat as FileEvents
pub use Rattle.feed_transactions.specs.InterruptedWrites
pub use Rattle.feed_checks.specs.MagicNumbers
pub use Rattle.feed_checks.specs.ReadVerdicts
pub use Rattle.feed_transactions.specs.Logs
pub use Rattle.feed_transactions.specs.Reports
pub use Rattle.feed_transactions.specs.ReportSteps
pub mod WorkedReports
pub use Rattle.feed_transactions.specs.Changes as TransactionChanges
pub use Rattle.feed_transactions.specs.Recorders
pub use Rattle.feed_change_log.specs.KeptTables
pub use Rattle.feed_change_log.specs.KeptChanges
pub use Rattle.feed_change_log.specs.ChangeViews
pub use Rattle.feed_transactions.specs.CheckedRows
pub use Rattle.feed_change_log.specs.CommittedLists
pub use Rattle.feed_change_log.specs.ChangeLogs
pub use Rattle.feed_change_log.specs.ChangeLaws as ChangeLaws
pub use Rattle.feed_replication.specs.PrefixLists as StreamWords
pub use Rattle.feed_replication.specs.Streams
pub use Rattle.feed_replication.specs.Acknowledgements
pub use Rattle.feed_replication.specs.ResumePositions
pub use Rattle.feed_replication.specs.Requests
pub use Rattle.feed_replication.specs.RequestErrors
pub use Rattle.feed_replication.specs.AnswerReaders
pub use Rattle.feed_replication.specs.AnswerSteps
pub use Rattle.feed_replication.specs.Following
pub use Rattle.feed_replication.specs.FollowingSteps
pub mod WorkedStreams
pub use Rattle.feed_replication.specs.RequestFields as ServedRequests
pub use Rattle.feed_replication.specs.RequestedPackets
pub use Rattle.feed_replication.specs.Positions
pub use Rattle.feed_replication.specs.Serving
pub use Rattle.feed_replication.specs.Sending
pub use Rattle.feed_replication.specs.SendingSteps
pub use Rattle.feed_replication.specs.ServedNames
pub use Rattle.feed_replication.specs.ServerLaws as ServingLaws
pub mod WorkedServing
pub use Rattle.feed_resume.specs.Conditions as KeptWords
pub use Rattle.feed_resume.specs.CommitLines
pub use Rattle.feed_resume.specs.Kept
pub use Rattle.feed_resume.specs.LineStarts
pub use Rattle.feed_resume.specs.Keepers
pub use Rattle.feed_resume.specs.Worked as WorkedKept
pub use Rattle.feed_replication.specs.Runs
pub use Rattle.feed_replication.specs.AnswerLaws as RunLaws
pub use Rattle.feed_replication.specs.Headline
pub mod Repair
pub mod Rests
pub mod Lines
pub mod LookingBack
pub mod LastCommits
pub use Rattle.feed_replication.specs.Rehearsing
pub use Rattle.feed_replication.specs.RehearsalSteps
pub mod WorkedRuns
pub use Rattle.feed_text.specs.TextPieces
pub use Rattle.feed_text.specs.Times
pub use Rattle.feed_text.specs.ValueText
pub use Rattle.feed_text.specs.DecimalText
pub use Rattle.feed_text.specs.DocumentForms
pub use Rattle.feed_text.specs.JsonText
pub use Rattle.feed_text.specs.ShortTexts
pub use Rattle.feed_text.specs.DiffText
pub use Rattle.feed_text.specs.FeedDocuments
pub use Rattle.feed_text.specs.CellText
pub use Rattle.feed_text.specs.CellContent
pub use Rattle.feed_text.specs.Buffers
pub use Rattle.feed_text.specs.FieldText
pub use Rattle.feed_text.specs.ImageText
pub use Rattle.feed_writers.specs.Quoting
pub use Rattle.feed_writers.specs.TimesOfDay
pub use Rattle.wire_buf.specs.Watched
pub mod RowsByMap
pub mod StreamCommits
pub mod ChangeFollowing
pub mod Appliers
pub mod ChangeRuns
pub mod ChangeRunSteps
