pub mod EachEnd
pub mod AnyOrder
