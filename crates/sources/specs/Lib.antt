pub mod Clock
pub mod Source
