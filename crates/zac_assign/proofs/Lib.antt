pub mod SearchFacts
pub mod Bound
