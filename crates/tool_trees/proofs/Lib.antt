pub mod Lines
pub mod OneListAtMost
pub mod Orders
pub mod Doing
pub mod Joins
