pub mod JoinedLemmas
pub mod GaveLemmas
pub mod SessionLemmas
pub mod StartLemmas
