pub mod Game
pub mod Table
pub mod AtPoint
pub mod Weights
