pub mod Endings
pub mod Claims
