pub mod Store
pub mod Text
pub mod Lines
pub mod Output
pub mod Steps
pub mod Cause
pub mod Own
