pub mod Check
pub mod Numbers
pub mod Refine
pub mod Shelf
