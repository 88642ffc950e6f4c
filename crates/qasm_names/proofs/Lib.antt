pub mod TablesLemmas
pub mod ReadsLemmas
pub mod FixedLemmas
pub mod PlaceLemmas
pub mod ScopesLemmas
pub mod BoundLemmas
