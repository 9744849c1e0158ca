pub mod RunLemmas
pub mod TextLemmas
pub mod EntryLemmas
pub mod WrittenLemmas
pub mod ReplayLemmas
pub mod NextLemmas
pub mod LawLemmas
