pub mod Laws
pub mod As01
pub mod Cases
