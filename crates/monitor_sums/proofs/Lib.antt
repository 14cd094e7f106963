pub mod Adding
pub mod Over
pub mod Counters
pub mod Profiles
pub mod Putting
pub mod Standing
pub mod Starting
pub mod Clearing
