pub mod Counts
pub mod Cuts
pub mod Difference
pub mod Leads
pub mod Numbers
pub mod Parts
pub mod Real
pub mod Sampled
