pub mod Runs
pub mod State
pub mod Held
pub mod Written
