pub mod DivisionLemmas
pub mod PairLemmas
pub mod MergeLemmas
pub mod JoinLemmas
