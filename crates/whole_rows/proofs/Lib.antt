pub mod Stepping
pub mod Fitting
pub mod Loading
pub mod Rising
pub mod Nexting
pub mod Placing
pub mod Switching
pub mod Marking
