pub mod Gem
