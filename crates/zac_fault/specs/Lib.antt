pub mod Kinds
pub mod Parts
pub mod Replayed
pub mod Statuses
pub mod Lines
pub mod Codes
