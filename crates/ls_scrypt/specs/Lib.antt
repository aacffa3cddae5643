pub mod BlockMix
pub mod Diagonals
pub mod RoMix
pub mod Salsa
pub mod Scrypt
