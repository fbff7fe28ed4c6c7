pub mod Made
pub mod Build
