pub mod Same
pub mod Keeping
pub mod Arriving
pub mod Holding
pub mod Staying
