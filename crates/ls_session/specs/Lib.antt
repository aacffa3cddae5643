pub mod Keeping
pub mod Checking
pub mod Opening
