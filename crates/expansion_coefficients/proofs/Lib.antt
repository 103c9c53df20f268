pub mod Lowest
pub mod Pairwise
pub mod Rule
