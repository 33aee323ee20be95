pub mod Handed
pub mod Unique
