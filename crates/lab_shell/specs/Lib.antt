pub mod Words
pub mod Ranges
pub mod Reasons
pub mod Json
pub mod Sessions
pub mod Talks
pub mod Steps
pub mod Hints
