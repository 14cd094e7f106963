pub mod Limits
pub mod Rules
pub mod Codec
pub mod Run
pub mod ByWords
pub mod Numbers
pub mod Line
pub mod LineLaws
