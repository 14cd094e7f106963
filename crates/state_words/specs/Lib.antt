pub mod Messages
pub mod Words
pub mod Fits
pub mod Reading
pub mod Laws
