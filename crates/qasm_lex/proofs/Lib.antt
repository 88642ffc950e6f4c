pub mod RunLemmas
pub mod FirstBytes
pub mod LongestWords
pub mod LongestSigns
pub mod LongestNumbers
pub mod FirstClasses
pub mod Found
pub mod CutLemmas
pub mod LexLoop
pub mod FrontExistence
pub mod LexedLemmas
mod Cutting
