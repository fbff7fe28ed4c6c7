pub mod Games
pub mod Worked
