pub mod Block
pub mod Line
pub mod Session
