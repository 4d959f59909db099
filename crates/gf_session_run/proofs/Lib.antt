pub mod ScriptLemmas
pub mod LineLemmas
pub mod OutcomeLemmas
pub mod RunLemmas
