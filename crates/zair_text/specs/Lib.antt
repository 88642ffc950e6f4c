pub mod Values
pub mod Tally
pub mod Lines
pub mod Writing
pub mod Ranges
pub mod Added
