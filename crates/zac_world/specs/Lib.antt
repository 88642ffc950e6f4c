pub mod Places
pub mod Nearest
pub mod Blocks
pub mod Walks
pub mod Around
pub mod Worlds
pub mod Free
