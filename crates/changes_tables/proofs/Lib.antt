pub mod MetadataLemmas
pub mod NameLemmas
pub mod KeyTextLemmas
pub mod JsonTextLemmas
pub mod MemberLemmas
pub mod PartLemmas
pub mod KeptTableLemmas
