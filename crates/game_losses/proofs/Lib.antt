pub mod Weights
pub mod Players
pub mod Losses
pub mod Replaced
pub mod Table
pub mod Player
pub mod FirstLargest
