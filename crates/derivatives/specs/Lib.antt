pub mod Derivatives
