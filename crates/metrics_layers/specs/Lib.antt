pub mod Filters
pub mod Stacks
