pub mod CharacterLemmas
pub mod TextLemmas
