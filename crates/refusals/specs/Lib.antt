pub mod Carried
pub mod Number
pub mod Refusal
pub mod Told
