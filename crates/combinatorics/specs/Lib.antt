pub mod Lists
pub mod Counting
pub mod Front
pub mod Edits
