pub mod Counts
pub mod Documents
pub mod Listings
pub mod Repeats
pub mod Shares
