pub mod Sets
pub mod Listed
pub mod Follow
