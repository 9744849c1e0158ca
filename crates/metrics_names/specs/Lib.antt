pub mod Shared
pub mod Names
pub mod Refusals
pub mod Hashing
pub mod Equality
