mod PairedLemmas
mod MadeLemmas
mod KeptLemmas
mod LawLemmas
mod AimingLemmas
mod KeptGroupLemmas
mod ShowingLemmas
