pub mod Moves
pub mod Groups
pub mod FirstFit
pub mod Tracks
pub mod Members
pub mod Fitting
pub mod Turns
pub mod Made
