pub mod Tables
pub mod Slots
