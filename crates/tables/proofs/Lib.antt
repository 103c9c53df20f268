pub mod Calls
pub mod Slots
pub mod Values
