pub mod Checking
pub mod Crystal
pub mod Laws
mod Running
