pub mod Events
pub mod Law
pub mod Places
pub mod Run
pub mod Settings
pub mod Tallies
