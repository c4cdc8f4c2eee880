pub mod TimeCaseLemmas
pub mod Computed
pub mod EntryErrorLemmas
pub mod EqualFieldLemmas
