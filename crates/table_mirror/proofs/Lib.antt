pub mod Rungs
pub mod Tables
