pub mod Margins
pub mod FittedWindow
pub mod JoinedBounds
