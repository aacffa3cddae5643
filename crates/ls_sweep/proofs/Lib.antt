pub mod FileLemmas
mod FreshLemmas
mod LastLemmas
mod LeftLemmas
mod ListLemmas
mod ListedLemmas
mod NamedSlotLemmas
mod SiftLemmas
mod SlotLemmas
mod SweepingLemmas
mod SweptLemmas
