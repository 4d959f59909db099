pub mod Linked
pub mod Meeting
pub mod Settled
