pub mod Machine
pub mod Held
