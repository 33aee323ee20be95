mod Printing
pub mod Sampling
pub mod Settled
pub mod Splitting
mod Turning
