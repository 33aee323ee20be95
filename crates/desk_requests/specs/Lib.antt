pub mod Answer
pub mod Found
pub mod Row
pub mod Table
