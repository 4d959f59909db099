pub mod LargestSets
pub mod Growing
pub mod Runs
pub mod Rows
pub mod Classes
pub mod Parents
pub mod Cutting
