pub mod OverSlots
pub mod ValueColumn
