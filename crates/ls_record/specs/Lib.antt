pub mod Rows
pub mod Spelling
pub mod Reading
pub mod Gives
pub mod Edits
pub mod EditReading
pub mod Leading
