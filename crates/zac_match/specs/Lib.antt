pub mod Choice
pub mod Cover
pub mod Chains
pub mod Search
