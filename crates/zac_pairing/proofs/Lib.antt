pub mod PairingFacts
pub mod TreeFacts
