pub mod Examples
pub mod Laws
pub mod Tests
pub mod Values
