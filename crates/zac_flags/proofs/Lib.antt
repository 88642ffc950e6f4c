mod WordFacts
pub mod FlagFacts
mod UnsetFacts
