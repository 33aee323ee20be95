mod InTurn
pub mod Locked
pub mod Refusals
