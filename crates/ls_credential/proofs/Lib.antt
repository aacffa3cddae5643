mod ClassLemmas
pub mod RuleLemmas
mod StretchLemmas
