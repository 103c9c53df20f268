pub mod Constants
pub mod Expansion
pub mod Range
