pub mod Named
pub mod Membership
pub mod Current
