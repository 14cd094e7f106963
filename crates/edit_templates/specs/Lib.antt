pub mod Braces
pub mod Edited
pub mod Lines
pub mod Steps
pub mod Templates
