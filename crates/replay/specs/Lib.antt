pub mod Block
pub mod Ending
pub mod Reading
pub mod Report
pub mod Samples
pub mod Turns
