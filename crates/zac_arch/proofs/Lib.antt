mod Lists
mod Grid
mod Zones
pub mod Ranges
mod Sites
mod Walks
mod Finding
mod Nearest
mod Roots
pub mod Geometry
pub mod Spacing
mod Broken
mod ZoneKinds
