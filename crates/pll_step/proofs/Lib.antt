pub mod Ahead
pub mod Ends
pub mod Places
pub mod Unique
pub mod Whole
