pub mod SplitLemmas
