pub mod Labelling
pub mod Points
