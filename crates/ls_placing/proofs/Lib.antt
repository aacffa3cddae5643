mod NumberLemmas
mod SlotLemmas
mod IdLemmas
mod ClearLemmas
pub mod StayLemmas
pub mod RoomLemmas
