pub mod NumeralLemmas
pub mod ShiftLemmas
pub mod DigitLemmas
pub mod PartLemmas
pub mod AmountLemmas
pub mod RoomLemmas
pub mod VerbLemmas
