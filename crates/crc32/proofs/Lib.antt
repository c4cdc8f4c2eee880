pub mod DivisionLemmas
pub mod MessageLemmas
pub mod ShorteningLemmas
pub mod SparseLemmas
pub mod TableLemmas
pub mod ZerosLemmas
