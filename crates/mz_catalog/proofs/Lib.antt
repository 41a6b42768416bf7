pub mod DependentLemmas
pub mod ItemLemmas
pub mod OldestLemmas
pub mod PlaceLemmas
pub mod StoredLemmas
