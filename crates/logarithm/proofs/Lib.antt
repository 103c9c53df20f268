pub mod Significand
pub mod LnCases
pub mod Laws
