pub mod Least
pub mod Judged
pub mod HeaderReading
pub mod FineHeader
pub mod Refused
