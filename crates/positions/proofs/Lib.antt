pub mod ByTails
pub mod Positions
pub mod Squares
pub mod Steps
pub mod Table
