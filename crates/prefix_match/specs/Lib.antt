pub mod Substring
pub mod SubstringStates
pub mod SubstringTable
pub mod SubstringForms
pub mod TriePatterns
pub mod TrieTree
