pub mod Answers
pub mod Ladders
