pub mod Printing
pub mod Saying
