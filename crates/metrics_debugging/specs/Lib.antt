pub mod DebuggingCells
pub mod DebuggingSeries
pub mod DebuggingOrder
pub mod DebuggingUpdates
pub mod Debugging
pub mod DebuggingMeaning
