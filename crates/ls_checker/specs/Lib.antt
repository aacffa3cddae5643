pub mod Walking
pub mod Wholes
pub mod Parts
pub mod SlotNames
pub mod BareRows
