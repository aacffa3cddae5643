pub mod Aes
pub mod Blocks
pub mod Byte
pub mod Gcm
