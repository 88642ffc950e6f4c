pub mod ChainFacts
pub mod CoverFacts
pub mod SearchFacts
