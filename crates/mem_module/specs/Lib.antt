pub mod Memory
pub mod MemModule
pub mod Texts
