pub mod Format
pub mod Faults
pub mod Rules
pub mod Files
pub mod Contents
pub mod PartNames
pub mod FileNames
