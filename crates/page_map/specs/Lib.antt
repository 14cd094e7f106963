pub mod Limits
pub mod Places
pub mod Pages
pub mod Faults
