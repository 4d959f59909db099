pub mod Reach
pub mod Moving
pub mod Corners
pub mod PointCounts
pub mod ColourBytes
pub mod White
pub mod HexDigits
