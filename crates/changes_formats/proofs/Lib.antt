pub mod EnvelopeTextLemmas
pub mod EpochLemmas
pub mod MemberListLemmas
pub mod LineLemmas
pub mod RefusedLemmas
pub mod EnvelopeTimeLemmas
