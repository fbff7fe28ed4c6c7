pub mod Rows
pub mod Samples
