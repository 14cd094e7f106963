pub mod Legal
pub mod Known
pub mod Answers
pub mod Slices
pub mod Lots
pub mod Rule
pub mod Turn
pub mod Inside
