pub mod Listings
pub mod Halves
pub mod Lengths
pub mod Accepting
pub mod Leaving
pub mod Touching
pub mod Texts
pub mod Paging
pub mod Sharing
mod Same
