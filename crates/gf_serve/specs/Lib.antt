pub mod Serving
pub mod Requests
pub mod ReplyTexts
pub mod RequestLines
pub mod Turns
pub mod Serves
pub mod ServingSteps
