pub mod Files
pub mod FreshIds
pub mod Lines
pub mod NamedSlots
pub mod Sifted
pub mod Swept
