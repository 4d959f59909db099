pub mod Spans
pub mod Crossings
pub mod Joining
pub mod JoiningParts
