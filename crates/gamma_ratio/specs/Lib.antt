pub mod Constants
pub mod GammaRatio
