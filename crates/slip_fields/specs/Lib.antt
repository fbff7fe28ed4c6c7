pub mod Slip
pub mod Runs
pub mod Worked
