pub mod PlacesFacts
mod SpanFacts
mod GridFacts
mod BlockFacts
pub mod WalkFacts
pub mod ListFacts
mod NearestFacts
mod FreeFacts
pub mod RankFacts
mod TakenFacts
