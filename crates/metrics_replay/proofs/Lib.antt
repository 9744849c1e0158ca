pub mod ReplayLemmas
pub mod JournaledLemmas
