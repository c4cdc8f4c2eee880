pub mod SumLemmas
pub mod NamedLemmas
pub mod LargestLemmas
pub mod TableRowsLemmas
pub mod TotalsLemmas
pub mod RecorderLemmas
