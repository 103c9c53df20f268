pub mod Signs
pub mod Edges
