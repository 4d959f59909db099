pub mod ToldLemmas
pub mod OrderLemmas
pub mod ReadLemmas
pub mod SteppingLemmas
pub mod CheckingLemmas
pub mod RunLemmas
