-- Proofs of the laws that shapes keep. No public clause cites these modules.
pub mod Sides
pub mod Parity
pub mod Moved
pub mod BoxOutline
pub mod Shapes
