pub mod Existence
pub mod NumbersFacts
pub mod RowsFacts
pub mod StagingFacts
pub mod TopsFacts
pub mod WalkFacts
