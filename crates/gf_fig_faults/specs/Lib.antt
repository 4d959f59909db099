pub mod Commenting
pub mod DrawingFaults
