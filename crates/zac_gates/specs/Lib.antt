pub mod Angle
pub mod Ops
pub mod Log
pub mod Checklist
pub mod Waiting
