pub mod Versions
pub mod VersionList
pub mod Growing
pub mod GroupedPositions
