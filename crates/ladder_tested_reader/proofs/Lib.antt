pub mod Alike
pub mod Tests
