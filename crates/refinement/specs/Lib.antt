pub mod Answer
pub mod Runs
