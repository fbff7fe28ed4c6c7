pub mod Binomials
pub mod Steps
pub mod Squares
pub mod Falls
