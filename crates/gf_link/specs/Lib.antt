pub mod Ends
pub mod Fresh
pub mod Kept
pub mod Seats
pub mod Seated
