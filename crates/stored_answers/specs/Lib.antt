pub mod Floats
pub mod Elementary
pub mod StartSums
pub mod Tables
pub mod Expansion
pub mod Answers
