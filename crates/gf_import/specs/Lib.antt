pub mod Importing
pub mod CreationFaults
pub mod Imported
pub mod CommandLines
pub mod ImportRun
pub mod ImportSteps
