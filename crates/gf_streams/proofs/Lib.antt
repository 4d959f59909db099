pub mod TakenLemmas
pub mod ReadsLemmas
pub mod CuttingLemmas
pub mod FirstByteLemmas
pub mod BlockLemmas
