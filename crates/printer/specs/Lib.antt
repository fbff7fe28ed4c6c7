pub mod Printed
pub mod Run
pub mod OwnGame
pub mod Filling
pub mod Sample
