pub mod Fault
pub mod Field
pub mod Kind
pub mod Named
pub mod Shape
