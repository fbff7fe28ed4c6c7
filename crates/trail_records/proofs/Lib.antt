pub mod Differences
pub mod Told
pub mod Kept
pub mod Standing
pub mod Begins
