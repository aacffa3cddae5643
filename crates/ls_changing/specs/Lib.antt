pub mod Replacing
pub mod Planning
pub mod Keeping
pub mod Drawing
