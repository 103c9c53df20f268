pub mod ConstantValues
pub mod NearRange
pub mod Quadrants
pub mod QuarterTurns
pub mod Laws
