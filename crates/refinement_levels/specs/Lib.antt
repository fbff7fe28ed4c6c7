pub mod Levels
pub mod Questions
pub mod Buffers
pub mod Claims
pub mod Worked
