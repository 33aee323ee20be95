pub mod Writing
pub mod Zipped
pub mod Telling
