pub mod Laws
pub mod Search
pub mod Test
