pub mod Operations
pub mod Loops
pub mod Polynomials
pub mod Facts
pub mod Numbers
