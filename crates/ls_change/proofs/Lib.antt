mod WeightLemmas
pub mod ChangeLemmas
pub mod SightLemmas
