pub mod Row
pub mod Test
pub mod Top
pub mod Unique
