pub mod Colours
pub mod DrawingState
pub mod DrawingColour
pub mod FrontMost
pub mod Outlined
