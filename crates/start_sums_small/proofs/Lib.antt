pub mod Laws
pub mod Poles
pub mod Series
