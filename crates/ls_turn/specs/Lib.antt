pub mod Agreeing
pub mod Refusing
pub mod Serving
pub mod Waiting
pub mod Working
pub mod Fresh
