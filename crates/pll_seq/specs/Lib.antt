pub mod Moves
pub mod Record
pub mod Recorder
