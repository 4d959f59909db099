pub mod SameOnLemmas
pub mod PlacedLemmas
pub mod KeepingLemmas
pub mod GatheredLemmas
