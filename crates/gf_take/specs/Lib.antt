pub mod ShownDrawing
pub mod Bases
pub mod Taking
pub mod TakingSteps
pub mod Matching
pub mod Reaching
