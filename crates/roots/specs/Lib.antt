pub mod SquareRoot
pub mod Steps
pub mod NearestRoot
