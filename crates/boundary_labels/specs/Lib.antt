pub mod Boundary
pub mod Claims
pub mod Worked
