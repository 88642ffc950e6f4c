pub mod Bytes
pub mod Forms
pub mod Lexed
pub mod Cuts
pub mod Classes
pub mod Numbers
pub mod Fronts
pub mod Cutting
