pub mod Loop
pub mod RingLemmas
pub mod NumberLemmas
pub mod ObjectLemmas
pub mod FaultLemmas
pub mod GrammarLemmas
pub mod LineLemmas
pub mod LawfulLemmas
