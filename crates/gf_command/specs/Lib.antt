pub mod Outputs
pub mod Outcomes
pub mod CommandLine
pub mod Spelling
pub mod Asking
pub mod Usages
