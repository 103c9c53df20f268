pub mod Constants
pub mod Mantissas
