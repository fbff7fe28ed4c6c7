pub mod Following
pub mod WholeSets
pub mod Nestings
pub mod ListedPoints
