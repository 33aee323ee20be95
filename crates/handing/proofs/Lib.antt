pub mod Back
pub mod Exits
pub mod Handing
pub mod Over
pub mod Unique
