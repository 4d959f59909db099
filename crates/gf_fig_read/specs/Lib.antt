pub mod Styles
pub mod Outlines
pub mod Objects
pub mod FigGrammar
pub mod FaultLines
pub mod Stepping
pub mod Computed
