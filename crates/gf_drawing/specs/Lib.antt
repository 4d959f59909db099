pub mod CanonicalDrawing
pub mod FaultWords
