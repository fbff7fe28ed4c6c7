pub mod Counted
pub mod Lent
pub mod Spare
pub mod Answers
pub mod Ways
pub mod Ends
pub mod Standing
