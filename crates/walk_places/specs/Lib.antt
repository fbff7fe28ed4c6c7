pub mod Walks
pub mod Placing
