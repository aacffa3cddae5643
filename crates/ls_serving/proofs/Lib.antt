pub mod BeginningLemmas
mod HeadlineLemmas
mod HearingLemmas
pub mod MetLemmas
pub mod RepliesLemmas
mod ScriptLemmas
pub mod ServingLemmas
pub mod SettledLemmas
pub mod TurnLemmas
