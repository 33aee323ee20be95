pub mod Fields
pub mod Plls
pub mod Words
