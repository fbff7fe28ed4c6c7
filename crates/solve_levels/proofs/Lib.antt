pub mod Limits
pub mod Levels
pub mod Claims
pub mod Worked
