pub mod Advance
pub mod Settles
pub mod Sums
pub mod Work
pub mod ManyHolds
