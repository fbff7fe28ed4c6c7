pub mod Measure
pub mod Meeting
