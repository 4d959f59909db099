pub mod Counts
pub mod Taken
pub mod TapeState
pub mod Reads
pub mod ReelState
pub mod TextLines
pub mod LineCutting
