pub mod JoinLemmas
pub mod ReceivingLemmas
pub mod MakingLemmas
pub mod BlockingLemmas
pub mod EditLemmas
pub mod WrittenLemmas
pub mod CleanLemmas
mod WritingLemmas
