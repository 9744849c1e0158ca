pub mod Numbers
pub mod Tallies
pub mod Pens
pub mod Worked
pub mod Ran
pub mod Texts
