pub mod Answer
pub mod Sheet
pub mod Words
