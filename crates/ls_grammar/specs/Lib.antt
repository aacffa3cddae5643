pub mod Words
pub mod Reads
pub mod Reading
pub mod Agreement
pub mod Steps
pub mod Refusals
pub mod LineAnswers
