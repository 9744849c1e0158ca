pub mod HandingLemmas
