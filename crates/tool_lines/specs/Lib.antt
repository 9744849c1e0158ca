pub mod Given
pub mod Handles
pub mod Running
pub mod Requests
pub mod TreeReading
pub mod Output
pub mod Examples
pub mod Exports
