pub mod SeriesLemmas
pub mod AgreesLemmas
pub mod ChangedLemmas
pub mod AddedLemmas
