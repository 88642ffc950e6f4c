pub mod Growth
pub mod Leading
pub mod Plan
pub mod Seats
