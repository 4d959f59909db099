pub mod SameOn
pub mod Keeping
pub mod Gathered
