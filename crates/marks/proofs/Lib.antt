pub mod Readings
pub mod OneStep
