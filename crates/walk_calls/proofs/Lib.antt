pub mod CarriedTo
pub mod Later
pub mod Calls
pub mod GridIn
pub mod OnStructs
