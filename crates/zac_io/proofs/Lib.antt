pub mod Filling
pub mod Growth
