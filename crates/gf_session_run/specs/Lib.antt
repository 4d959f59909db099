pub mod DenotedScripts
pub mod ErrorTexts
pub mod Reports
pub mod SessionRun
pub mod SessionSteps
