pub mod Grid
pub mod Questions
pub mod Worked
