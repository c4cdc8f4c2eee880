mod EventLineLemmas
mod EventPrintLemmas
pub mod EventWalkLemmas
pub mod GrowingLemmas
mod MemberNameLemmas
mod SchemaOptionLemmas
mod ZoneLemmas
pub mod LogReaderLemmas
mod UnpackingLemmas
