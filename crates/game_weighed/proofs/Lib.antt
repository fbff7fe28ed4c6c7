pub mod Blends
pub mod Levels
pub mod Writing
pub mod NextLevel
