pub mod CellsLemmas
pub mod JournalLemmas
pub mod JournalsLemmas
