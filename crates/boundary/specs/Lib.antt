pub mod Call
pub mod Lent
pub mod Runs
