pub mod Powers
pub mod LayoutLemmas
pub mod NumberingLemmas
