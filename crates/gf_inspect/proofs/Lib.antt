pub mod ListingLemmas
pub mod TopNameLemmas
pub mod AimedChangeLemmas
mod JsonLemmas
