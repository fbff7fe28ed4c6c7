pub mod Walk
pub mod Next
pub mod Preview
pub mod Kept
pub mod Claims
pub mod Worked
