mod Cuts
pub mod Joins
mod Reading
