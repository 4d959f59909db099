pub mod Positions
pub mod Standing
