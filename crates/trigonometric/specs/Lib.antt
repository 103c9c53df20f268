pub mod Constants
pub mod Trigonometric
pub mod Angle
pub mod QuarterTurns
