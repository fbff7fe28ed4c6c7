pub mod Shows
pub mod Reading
