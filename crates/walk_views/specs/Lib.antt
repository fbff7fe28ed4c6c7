pub mod Begun
pub mod Turned
pub mod Viewed
pub mod Claims
