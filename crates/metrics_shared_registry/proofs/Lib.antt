pub mod MadeLemmas
pub mod ResultLemmas
