pub mod Decimals
pub mod Parts
