pub mod Accuracy
pub mod Calls
pub mod Worked
