pub mod Start
pub mod Placed
pub mod FromStart
