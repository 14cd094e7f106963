pub mod CombSwitch
pub mod Texts
pub mod Kept
pub mod Held
