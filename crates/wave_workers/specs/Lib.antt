pub mod Working
pub mod Settling
pub mod Lots
pub mod Pacing
