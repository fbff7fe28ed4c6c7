pub mod Held
pub mod Room
