pub mod OnTrail
