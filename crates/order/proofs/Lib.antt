pub mod Steps
pub mod Facts
pub mod Whole
pub mod Laws
pub mod Tests
