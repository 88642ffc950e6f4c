pub mod Told
pub mod Texts
pub mod Kinds
pub mod Causes
pub mod Compact
