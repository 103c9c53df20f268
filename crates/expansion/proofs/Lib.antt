pub mod Cases
pub mod Range
