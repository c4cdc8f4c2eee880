pub mod WordLemmas
pub mod MemberLemmas
pub mod FixedLemmas
pub mod LongTextLemmas
pub mod TextJsonLemmas
pub mod FieldLemmas
pub mod KeyLemmas
pub mod JsonFormLemmas
