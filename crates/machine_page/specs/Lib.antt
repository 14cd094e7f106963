pub mod Limits
pub mod Machines
pub mod Pages
pub mod States
