pub mod AppendLemmas
mod TaggedLemmas
pub mod TaggedDecisions
mod Utf8Lemmas
pub mod GtidLemmas
