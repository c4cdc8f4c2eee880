pub mod KeptTableLemmas
pub mod KeptChangeLemmas
pub mod RecorderLemmas
pub mod LogLemmas
pub mod StopLemmas
pub mod FilterLemmas
pub mod NextPlaceLemmas
pub mod PushedLemmas
