pub mod Answers
pub mod Carried
pub mod Accepted
