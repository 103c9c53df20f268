pub mod Orders
pub mod Cases
pub mod Told
