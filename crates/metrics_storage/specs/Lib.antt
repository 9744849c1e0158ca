pub mod Block
pub mod Bucket
pub mod Drains
pub mod Fairness
pub mod Histogram
pub mod Ownership
pub mod Reservoir
pub mod Sample
