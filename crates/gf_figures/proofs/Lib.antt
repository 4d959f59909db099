pub mod Painting
pub mod DrawingLaw
pub mod FrontLemmas
pub mod LawfulLemmas
pub mod OutlinedLemmas
pub mod TableLemmas
pub mod SortedLemmas
