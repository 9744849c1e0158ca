pub mod Journal
pub mod Cells
pub mod Shard
pub mod Tally
pub mod Journals
