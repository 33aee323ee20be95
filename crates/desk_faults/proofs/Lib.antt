pub mod Complaining
