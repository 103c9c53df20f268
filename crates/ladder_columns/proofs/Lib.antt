pub mod Room
pub mod Columns
