pub mod Told
pub mod Lives
pub mod Worlds
