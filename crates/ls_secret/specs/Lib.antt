pub mod Derivation
pub mod Escrow
pub mod Personals
pub mod Secrets
pub mod Subkeys
