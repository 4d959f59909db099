pub mod LineLemmas
pub mod FaultsLemmas
