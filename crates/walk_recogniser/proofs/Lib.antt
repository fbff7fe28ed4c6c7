pub mod OrderSets
pub mod Blocks
pub mod Following
pub mod Steps
pub mod Labels
pub mod Together
