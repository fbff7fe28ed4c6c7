pub mod Arrays
pub mod Vertices
pub mod Runs
pub mod Slips
pub mod LongInputs
pub mod OwnGame
pub mod Filling
mod Sample
