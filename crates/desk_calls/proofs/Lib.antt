mod GemOfImage
mod RatiosInWords
pub mod Settled
