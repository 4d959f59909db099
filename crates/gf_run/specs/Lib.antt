pub mod Refusals
pub mod RunAnswers
pub mod RefusedRuns
pub mod Answers
pub mod ErrorTexts
