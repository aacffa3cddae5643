pub mod Moments
pub mod Entries
pub mod Trying
pub mod Finishing
pub mod Found
pub mod Fairness
