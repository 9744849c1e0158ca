pub mod Made
pub mod Watching
