pub mod SharingFacts
pub mod KeepingFacts
