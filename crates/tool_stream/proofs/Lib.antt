mod Known
pub mod LinesLemmas
pub mod Reading
mod Handing
pub mod Loop
