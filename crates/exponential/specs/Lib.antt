pub mod Constants
pub mod Exponential
