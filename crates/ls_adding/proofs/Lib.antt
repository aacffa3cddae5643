pub mod AddingLemmas
mod FirstLemmas
