pub mod Steps
pub mod Times
pub mod Ranges
pub mod Timing
