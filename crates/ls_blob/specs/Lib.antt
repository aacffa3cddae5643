pub mod Blobs
pub mod Kinds
pub mod Parsing
pub mod Personal
pub mod Views
