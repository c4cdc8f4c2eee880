pub mod WritingLemmas
pub mod SevenLemmas
pub mod FixedLemmas
pub mod BytewiseLemmas
pub mod TextLemmas
pub mod FieldLemmas
pub mod ShortestLemmas
pub mod VersionLemmas
