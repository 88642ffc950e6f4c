pub mod Assignment
pub mod Costs
pub mod Search
