pub mod Laws
pub mod Values
pub mod Source
pub mod Fits
