pub mod LargestLemmas
pub mod MaximalLemmas
pub mod GrowingLemmas
pub mod RunLemmas
pub mod RunSetLemmas
pub mod PutLemmas
mod SameRunLemmas
pub mod RunTestLemmas
pub mod RunEditLemmas
pub mod UnitedLemmas
pub mod FirstLemmas
pub mod ParentLemmas
pub mod PartLemmas
pub mod ClassLemmas
pub mod CuttingLemmas
pub mod ListingLemmas
