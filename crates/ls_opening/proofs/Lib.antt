mod SlotLemmas
mod WalkLemmas
