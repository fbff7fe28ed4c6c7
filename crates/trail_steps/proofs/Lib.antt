pub mod Shows
pub mod Stripped
pub mod Reached
pub mod Moves
pub mod Ways
pub mod Named
pub mod Arrived
pub mod NextPlace
