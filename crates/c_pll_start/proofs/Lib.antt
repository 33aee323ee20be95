pub mod Again
pub mod Starts
pub mod Stepped
