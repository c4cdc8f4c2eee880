mod WholeTexts
mod PieceLemmas
mod AdvanceLemmas
mod ShownLemmas
pub mod LayoutLemmas
pub mod ElementLemmas
pub mod HeadLemmas
pub mod GtidTextLemmas
pub mod MakingLemmas
pub mod RowLemmas
pub mod TakenLemmas
