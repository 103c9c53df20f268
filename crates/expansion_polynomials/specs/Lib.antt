pub mod Polynomials
