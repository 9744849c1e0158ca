pub mod DescriptionsLemmas
