pub mod Room
pub mod Climbs
