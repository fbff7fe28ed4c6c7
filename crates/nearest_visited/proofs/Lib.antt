pub mod Firsts
pub mod Visits
pub mod Distances
pub mod Nearest
pub mod Worked
