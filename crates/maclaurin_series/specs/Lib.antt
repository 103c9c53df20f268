pub mod Constants
pub mod Series
