pub mod StepLemmas
pub mod StandLemmas
pub mod PartLemmas
pub mod StayLemmas
pub mod DraftLemmas
mod StageLemmas
mod RetireLemmas
mod TidyLemmas
