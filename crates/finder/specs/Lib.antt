pub mod Run
pub mod Asked
pub mod Demand
pub mod Finishes
pub mod Numbers
