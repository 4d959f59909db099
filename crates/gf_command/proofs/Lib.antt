pub mod OpenLemmas
mod AddingLemmas
mod ReadingLemmas
mod SpellingLemmas
pub mod TakenLemmas
