pub mod Finish
pub mod Looking
