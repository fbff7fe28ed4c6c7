pub mod Mask
pub mod Moves
pub mod Ready
pub mod Read
