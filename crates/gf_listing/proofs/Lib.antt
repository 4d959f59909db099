pub mod PositionLemmas
pub mod CountingLemmas
