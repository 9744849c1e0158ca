pub mod BuildersLemmas
pub mod JoinedLemmas
pub mod NodesLemmas
pub mod OneChildLemmas
pub mod RoutingLemmas
pub mod VisitLemmas
