pub mod RefProc
pub mod Texts
