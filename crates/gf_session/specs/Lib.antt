pub mod Outcome
pub mod Joined
pub mod Starting
pub mod Session
pub mod SessionErrors
