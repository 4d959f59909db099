pub mod EndLemmas
pub mod RuleLemmas
pub mod SeatLemmas
