pub mod Disarming
pub mod Numbers
