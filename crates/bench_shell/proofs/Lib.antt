mod Benches
pub mod Lines
mod Own
pub mod Printing
mod Steps
pub mod Writes
