pub mod Crossings
pub mod Sites
pub mod Machine
