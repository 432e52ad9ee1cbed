pub mod Ancestors
pub mod Kept
