pub mod Climbs
pub mod Starts
pub mod Outcomes
pub mod Refusals
