pub mod Blocks
pub mod PointAfter
pub mod InOrder
pub mod Shifts
