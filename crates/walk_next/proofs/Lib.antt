pub mod Labels
pub mod Stood
pub mod Begins
