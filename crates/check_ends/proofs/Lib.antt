pub mod Yes
pub mod EachEnd
pub mod AnyOrder
