pub mod OfStd
pub mod Part
pub mod SizeRange
pub mod Capped
pub mod Products
