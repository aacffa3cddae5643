pub mod Pins
pub mod Putting
