pub mod Slots
pub mod Throttle
