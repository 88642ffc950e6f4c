pub mod Fields
pub mod Entries
pub mod Values
pub mod Writing
pub mod Faults
pub mod Texts
