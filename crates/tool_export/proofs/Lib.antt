pub mod RequestLemmas
pub mod SpellingLemmas
mod PlainLemmas
pub mod AnswerLemmas
mod SessionLemmas
mod BoundsLemmas
mod PlanLemmas
