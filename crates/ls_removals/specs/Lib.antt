pub mod Going
pub mod Letting
pub mod Ending
