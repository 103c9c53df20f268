pub mod Integers
pub mod NearRange
