pub mod Start
pub mod Step
