pub mod Handing
pub mod Layering
