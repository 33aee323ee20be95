pub mod Laws
mod Shifts
