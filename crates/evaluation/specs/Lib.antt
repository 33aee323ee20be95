pub mod Evaluated
pub mod Formulas
