pub mod Clearing
pub mod Ending
