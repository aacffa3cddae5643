pub mod ByteLists
pub mod Fields
pub mod Joined
pub mod Names
pub mod Reading
