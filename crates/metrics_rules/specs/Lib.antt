pub mod Routing
pub mod Nodes
pub mod Branches
pub mod Builders
pub mod Meanings
pub mod Visits
