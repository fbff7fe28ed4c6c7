pub mod Shelf
pub mod Questions
pub mod Calls
pub mod Demand
