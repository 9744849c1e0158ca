pub mod NumberLemmas
pub mod WordsLemmas
pub mod GrammarLemmas
pub mod CallLemmas
pub mod KindsLemmas
