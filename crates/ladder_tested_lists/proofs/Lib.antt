pub mod ByTests
pub mod Slots
pub mod Lists
