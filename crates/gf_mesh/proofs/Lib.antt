pub mod MeetingLemmas
pub mod PlaceLemmas
pub mod RowLemmas
pub mod SettlingLemmas
