pub mod Recurrence
pub mod ThreeTerm
