pub mod Printed
pub mod Request
