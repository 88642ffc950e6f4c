pub mod PlacingFacts
pub mod FillingFacts
pub mod SiteFacts
pub mod UseFacts
pub mod HomeFacts
mod OfferFacts
mod ReturnFacts
mod JudgeFacts
