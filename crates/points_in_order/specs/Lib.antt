pub mod PointAfter
pub mod Lent
pub mod Shifted
