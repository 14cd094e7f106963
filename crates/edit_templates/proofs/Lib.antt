pub mod Alls
pub mod Counts
pub mod Cuts
pub mod Editing
pub mod Reading
