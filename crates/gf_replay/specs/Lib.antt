pub mod Denoting
pub mod Refusing
pub mod Taking
pub mod Waiting
pub mod LineSteps
pub mod Blocks
pub mod Behind
pub mod CauseWords
