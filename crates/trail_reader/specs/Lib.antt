pub mod Reading
pub mod Begun
