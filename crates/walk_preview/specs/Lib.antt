pub mod Changes
pub mod Previews
pub mod Claims
