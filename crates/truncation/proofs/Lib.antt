pub mod Cuts
pub mod Truncation
pub mod Edges
