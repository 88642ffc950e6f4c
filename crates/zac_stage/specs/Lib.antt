pub mod Numbers
pub mod Staging
pub mod Rooms
pub mod Rows
pub mod Tops
pub mod Walk
