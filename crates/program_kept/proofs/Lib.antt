pub mod KeptLemmas
mod LineWritingLemmas
