pub mod LevelStarts
pub mod LevelRuns
pub mod Solved
pub mod AllRuns
pub mod Outcomes
