pub mod Boxes
pub mod Places
pub mod Objects
pub mod StartFaults
