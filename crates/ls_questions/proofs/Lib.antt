mod TurnLemmas
mod QuestionLemmas
mod ClosingLemmas
