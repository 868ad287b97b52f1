pub mod Handles
pub mod Answers
