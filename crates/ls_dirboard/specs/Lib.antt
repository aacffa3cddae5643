pub mod Seen
pub mod Saved
