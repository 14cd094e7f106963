pub mod Bound
pub mod Levels
pub mod Texts
pub mod Towards
pub mod Trees
