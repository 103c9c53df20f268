pub mod Constants
pub mod Logarithm
pub mod LnSteps
