pub mod Asked
pub mod Calls
pub mod Moving
pub mod Claims
