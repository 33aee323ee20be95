pub mod Choosing
pub mod Parts
pub mod Reading
pub mod Splitting
