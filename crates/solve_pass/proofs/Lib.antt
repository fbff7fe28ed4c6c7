pub mod Bare
pub mod Points
pub mod Places
pub mod Passed
