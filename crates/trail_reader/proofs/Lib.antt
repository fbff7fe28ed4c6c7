pub mod Masks
pub mod Begins
pub mod Rebuilt
