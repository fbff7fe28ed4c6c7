pub mod Demand
pub mod Backwards
