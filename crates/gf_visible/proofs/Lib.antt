pub mod SeenLemmas
pub mod SearchLemmas
pub mod ShowingLemmas
pub mod TimelineLemmas
pub mod PartialLemmas
pub mod SetterLemmas
pub mod SettledLemmas
pub mod ShownGroupLemmas
pub mod VisibleLemmas
pub mod ShownSetLemmas
pub mod ClassShowingLemmas
pub mod ClassListingLemmas
mod RankingLemmas
