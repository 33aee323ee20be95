pub mod Runs
pub mod Step
pub mod Within
