pub mod LenencSplit
