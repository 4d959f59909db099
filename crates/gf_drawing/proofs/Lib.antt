pub mod CompilingLemmas
pub mod NumberLemmas
pub mod CanonicalColour
