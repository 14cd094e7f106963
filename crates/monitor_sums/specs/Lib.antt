pub mod Limits
pub mod Counts
pub mod Adding
pub mod Sums
pub mod Kept
pub mod Whole
