pub mod Seated
pub mod Serving
