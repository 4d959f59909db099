pub mod OneVersionLemmas
mod TellingLemmas
mod LackingLemmas
mod AimingLemmas
mod AddingLemmas
pub mod ObjectLemmas
