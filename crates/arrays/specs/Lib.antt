pub mod Going
pub mod Lent
