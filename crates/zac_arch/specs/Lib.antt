pub mod Distances
pub mod Parking
pub mod Architecture
pub mod Rules
pub mod Tiny
pub mod Standard
