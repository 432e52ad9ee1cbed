pub mod Answers
pub mod Table
