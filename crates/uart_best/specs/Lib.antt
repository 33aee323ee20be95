pub mod Best
pub mod Turn
