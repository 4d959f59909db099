pub mod Layout
pub mod Forms
pub mod Fields
pub mod Stepping
pub mod TokenLines
