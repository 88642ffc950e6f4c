pub mod CheckingFacts
mod Lists
pub mod Performing
pub mod Realising
pub mod Rearranging
mod Validity
pub mod WaitingFacts
