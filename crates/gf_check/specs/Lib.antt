pub mod CheckRun
pub mod FaultLines
pub mod CheckedText
pub mod TrueFaults
pub mod AllFaults
pub mod Telling
pub mod CheckedLines
