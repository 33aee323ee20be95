pub mod Due
pub mod Sequence
