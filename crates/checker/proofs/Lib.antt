pub mod ListRefusals
pub mod Covering
pub mod Answers
pub mod EachEnd
