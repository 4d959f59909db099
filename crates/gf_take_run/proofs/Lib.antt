pub mod PartingLemmas
pub mod NewerLemmas
pub mod MakingLemmas
pub mod TakeLemmas
pub mod CountingLemmas
pub mod JoinedLemmas
pub mod LeavingLemmas
pub mod ShownLemmas
