pub mod Simplices
pub mod Chains
pub mod Worked
