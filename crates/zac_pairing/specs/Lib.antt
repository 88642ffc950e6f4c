pub mod Pairing
pub mod Tree
