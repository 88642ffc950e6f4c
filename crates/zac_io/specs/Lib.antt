pub mod Outside
pub mod Calls
pub mod Files
pub mod MemShelf
pub mod MemSink
pub mod Adapters
