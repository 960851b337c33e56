pub mod HeaderCrossed
pub mod PointerCrossed
pub mod SlotsCrossed
