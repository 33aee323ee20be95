mod Asking
mod Finding
mod Places
mod Rows
pub mod Settled
mod Speaking
