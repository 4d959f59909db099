pub mod RingLemmas
pub mod CornerLemmas
pub mod OutlineLemmas
pub mod SeenLemmas
pub mod PlaceLemmas
pub mod TableLemmas
