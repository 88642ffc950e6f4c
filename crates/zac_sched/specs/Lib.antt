pub mod Todos
pub mod Schedule
pub mod Exchange
pub mod Ends
