pub mod Alike
pub mod Held
pub mod Placed
pub mod BothPlaced
