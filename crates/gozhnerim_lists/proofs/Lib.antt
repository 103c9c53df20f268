pub mod Lists
pub mod Counters
pub mod AnyState
pub mod Demand3InC
