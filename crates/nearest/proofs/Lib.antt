pub mod Refusals
pub mod Demand
pub mod Finishes
