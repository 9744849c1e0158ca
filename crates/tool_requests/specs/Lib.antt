pub mod Places
pub mod Lines
pub mod Parsed
pub mod Names
pub mod Scrapes
pub mod Spelled
