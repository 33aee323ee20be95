pub mod Cpu
pub mod Ddr
pub mod Setup
