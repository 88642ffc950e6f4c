pub mod Weights
pub mod Shown
pub mod Named
pub mod Slots
pub mod Watching
pub mod Judging
pub mod Replaying
