pub mod Slot
pub mod Install
