pub mod Worked
pub mod Round
pub mod Points
pub mod Listing
pub mod CoordinatesBelow
pub mod Prefix
pub mod Accepted
pub mod Terms
