pub mod CountSteps
pub mod Stepping
