pub mod Refusals
pub mod Loaded
pub mod Commits
pub mod FileReading
pub mod Loading
