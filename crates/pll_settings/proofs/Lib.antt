pub mod Entries
pub mod Test
pub mod Unique
