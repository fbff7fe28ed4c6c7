pub mod AllLabels
pub mod Outcomes
pub mod Kept
