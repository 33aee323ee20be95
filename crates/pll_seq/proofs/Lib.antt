pub mod Few
pub mod Front
pub mod Moved
pub mod ToCome
pub mod Turning
pub mod Unique
