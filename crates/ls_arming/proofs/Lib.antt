pub mod InsertLemmas
