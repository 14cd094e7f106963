pub mod Queueing
pub mod Telling
pub mod Stating
pub mod Saying
pub mod Measuring
pub mod Passing
