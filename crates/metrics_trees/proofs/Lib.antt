pub mod PlacesLemmas
pub mod JoinedLemmas
pub mod OneChildLemmas
pub mod ActingLemmas
pub mod RegisterLemmas
pub mod OverLemmas
pub mod ChildLemmas
pub mod BuildersLemmas
