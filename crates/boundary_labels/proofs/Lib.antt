pub mod Rounds
pub mod PointLabels
pub mod Alike
pub mod Tables
pub mod Complete
pub mod Ends
pub mod Worked
