pub mod PictureLemmas
pub mod RowLemmas
pub mod RunLemmas
pub mod ShareLemmas
pub mod SharingLemmas
