pub mod Replaying
pub mod Journaled
