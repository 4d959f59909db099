pub mod Keeping
pub mod KeepFaults
pub mod KeepSteps
pub mod MadeOf
