pub mod Opponents
pub mod Bounds
pub mod OwnLosses
pub mod Compared
