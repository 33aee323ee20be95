pub mod Form
pub mod Says
pub mod Told
