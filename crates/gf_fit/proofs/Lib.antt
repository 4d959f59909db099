pub mod BoundsLemmas
pub mod FittingLemmas
