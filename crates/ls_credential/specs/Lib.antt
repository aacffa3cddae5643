pub mod Codes
pub mod Rules
pub mod Stretches
pub mod Counts
pub mod SeenMetrics
