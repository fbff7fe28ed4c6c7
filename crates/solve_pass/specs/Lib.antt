pub mod Bare
pub mod Asked
