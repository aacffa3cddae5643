pub mod UserLemmas
pub mod FoundLemmas
mod PinLemmas
mod TurnLemmas
mod AnswerLemmas
mod PutLemmas
mod CommitLemmas
