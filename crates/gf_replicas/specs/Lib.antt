pub mod World
pub mod Sound
pub mod Settled
pub mod Visits
pub mod Courses
