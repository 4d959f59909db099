pub mod SitesLemmas
pub mod SoundLemmas
pub mod HappenLemmas
pub mod SettledLemmas
pub mod CutLemmas
pub mod EventLemmas
pub mod OfferedLemmas
