pub mod StayLemmas
pub mod TidyingLemmas
pub mod BehindLemmas
mod PlaceLemmas
mod StepLemmas
mod IdLemmas
