pub mod Rounding
pub mod Worked
