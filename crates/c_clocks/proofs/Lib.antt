pub mod Errors
pub mod Laws
pub mod Update
