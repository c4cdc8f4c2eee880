pub mod JsonGrammar
pub mod JsonNames
pub mod JsonLines
pub mod SameCells
pub mod SameDocuments
