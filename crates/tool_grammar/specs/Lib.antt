pub mod Cuts
pub mod Grammar
pub mod Printing
pub mod Kinds
