pub mod SeeLemmas
