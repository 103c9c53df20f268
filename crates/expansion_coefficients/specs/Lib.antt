pub mod Fractions
pub mod Dlmf
pub mod Table
pub mod Nearest
