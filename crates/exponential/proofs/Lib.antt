pub mod PowersOfTwo
pub mod NearRange
pub mod Cases
pub mod Laws
