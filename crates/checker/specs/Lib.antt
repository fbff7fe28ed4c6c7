pub mod Check
pub mod Covered
pub mod EachEnd
