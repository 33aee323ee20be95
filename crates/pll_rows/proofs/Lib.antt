pub mod Polls
pub mod Written
