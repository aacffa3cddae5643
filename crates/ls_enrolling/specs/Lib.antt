pub mod Enrolling
pub mod Planning
