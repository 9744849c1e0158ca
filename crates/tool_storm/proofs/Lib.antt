pub mod Chunks
pub mod TallyLemmas
pub mod Joining
pub mod Accounts
pub mod Parts
