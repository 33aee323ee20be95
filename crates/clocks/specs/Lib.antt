pub mod Module
pub mod Whole
