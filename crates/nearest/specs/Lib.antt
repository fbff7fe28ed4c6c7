pub mod Report
pub mod Demand
