pub mod Examples
pub mod Views
pub mod Products
pub mod Sums
pub mod Laws
pub mod Opposites
