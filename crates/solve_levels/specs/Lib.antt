pub mod Questions
pub mod Solving
pub mod Claims
pub mod Worked
