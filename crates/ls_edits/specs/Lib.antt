pub mod Rows
pub mod SoundRows
pub mod Arming
