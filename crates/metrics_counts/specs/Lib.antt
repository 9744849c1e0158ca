pub mod Counting
pub mod Keys
pub mod Noted
pub mod Noting
pub mod Owning
