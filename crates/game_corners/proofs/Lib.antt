pub mod Blends
pub mod CornerLabels
pub mod CornerLosses
pub mod Integers
pub mod Rows
pub mod Picked
