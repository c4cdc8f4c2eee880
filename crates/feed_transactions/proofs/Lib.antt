pub mod RuleLemmas
pub mod BetweenLemmas
pub mod FeedStateLemmas
pub mod KnownEventLemmas
pub mod TakingLemmas
pub mod UsualLemmas
pub mod CommittedLemmas
pub mod TextLemmas
pub mod RecordLemmas
pub mod RecordedTextLemmas
pub mod RowLineLemmas
pub mod CheckedRowLemmas
pub mod CheckedEventLemmas
mod CountedRowLemmas
mod NamePatternLemmas
mod TableFilterLemmas
pub mod TableLemmas
pub mod MapBodyLemmas
pub mod KnownImageLemmas
pub mod WritingLemmas
pub mod WaitingLemmas
pub mod ReportLemmas
pub mod MagicNumberLemmas
pub mod PrefixLemmas
