pub mod Pbkdf2Lemmas
mod StandardFacts
