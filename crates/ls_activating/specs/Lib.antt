pub mod Counting
pub mod Halves
pub mod Activating
pub mod Planning
