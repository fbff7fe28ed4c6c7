pub mod Spares
pub mod Choosing
pub mod Standing
