pub mod Grids
pub mod GameLabels
pub mod Starts
pub mod Vertices
pub mod Buffers
pub mod Claims
pub mod Worked
