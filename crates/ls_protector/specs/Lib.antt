pub mod Parts
pub mod Clear
pub mod Settled
pub mod Steps
pub mod Drafts
