pub mod Grids
pub mod Later
