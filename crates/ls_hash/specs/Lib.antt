pub mod Derivation
pub mod Hmac
pub mod Mac
pub mod Padding
pub mod Pbkdf2
pub mod Personal
