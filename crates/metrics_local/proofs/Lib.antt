mod KeepingLemmas
