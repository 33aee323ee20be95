pub mod Counting
pub mod Cutting
pub mod Going
pub mod Joining
pub mod Laws
pub mod Leading
pub mod Signed
pub mod Truth
