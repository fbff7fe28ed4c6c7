pub mod Readings
pub mod Tables
pub mod LossesRead
