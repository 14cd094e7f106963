pub mod Queries
pub mod Answers
pub mod Texts
