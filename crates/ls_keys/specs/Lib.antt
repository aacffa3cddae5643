pub mod Opening
pub mod Store
