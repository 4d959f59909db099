pub mod ObjectVersions
pub mod TopVersion
pub mod AimedChange
pub mod VersionLines
pub mod VersionJson
pub mod Told
pub mod Falling
