pub mod Constants
pub mod Branches
pub mod As01
