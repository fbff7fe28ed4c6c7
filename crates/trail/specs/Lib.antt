pub mod Change
pub mod Record
pub mod Trail
pub mod Demand
pub mod Worked
