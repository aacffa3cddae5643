pub mod DroppingLemmas
pub mod BareLemmas
