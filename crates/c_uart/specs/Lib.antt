pub mod Listed
pub mod Tells
