pub mod PartingLemmas
