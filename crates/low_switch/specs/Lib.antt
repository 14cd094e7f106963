pub mod LowSwitch
pub mod Texts
