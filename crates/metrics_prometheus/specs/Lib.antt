pub mod Exposition
pub mod Repeated
pub mod Rows
pub mod Places
pub mod Heads
pub mod Written
pub mod LeftOut
pub mod Counted
