pub mod PackedTimes
