pub mod StoredLemmas
pub mod SlotLemmas
pub mod HeldLemmas
pub mod SealsLemmas
