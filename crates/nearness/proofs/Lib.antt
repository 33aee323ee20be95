pub mod Distance
pub mod Falling
pub mod Row
pub mod Rows
pub mod Search
pub mod Upto
