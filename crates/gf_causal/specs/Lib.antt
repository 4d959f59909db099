pub mod Ready
pub mod HeldOperations
pub mod DeliveredPart
pub mod Keeping
pub mod KeptEntries
pub mod Waiting
pub mod Blocking
