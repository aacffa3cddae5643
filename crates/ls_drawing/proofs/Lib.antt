pub mod DrawLemmas
pub mod PassingLemmas
