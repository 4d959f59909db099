pub mod ServingLemmas
pub mod AnswerLemmas
pub mod AskingLemmas
pub mod InboxLemmas
pub mod WritingLemmas
pub mod TurnLemmas
