pub mod RowLemmas
mod HandleLemmas
pub mod CountLemmas
pub mod MetricsLemmas
pub mod EndLemmas
