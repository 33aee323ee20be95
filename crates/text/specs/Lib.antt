pub mod Bytes
pub mod Digits
pub mod Page
pub mod Put
