mod Lines
pub mod OneLine
pub mod OneSession
mod Stepping
