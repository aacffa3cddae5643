pub mod Asked
pub mod Secure
pub mod Held
pub mod Reading
pub mod Choosing
