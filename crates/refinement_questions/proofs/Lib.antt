pub mod NextGrids
pub mod MadeLevels
pub mod Asked
