pub mod Visited
pub mod Distance
pub mod Nearest
pub mod Questions
pub mod Demand
pub mod Worked
