pub mod Laws
pub mod InC
