pub mod Range
pub mod Candidate
