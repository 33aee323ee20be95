pub mod Tells
pub mod Update
