pub mod Weighing
pub mod Label
