pub mod StringEndLemmas
pub mod PositionLemmas
pub mod ResumePointLemmas
pub mod KeptLineLemmas
pub mod ReadingLemmas
pub mod JsonLawLemmas
