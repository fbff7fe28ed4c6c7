pub mod Among
pub mod Changed
pub mod BothSeen
pub mod Calls
pub mod OnCopies
