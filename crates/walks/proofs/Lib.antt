pub mod Worked
pub mod Meaning
pub mod Local
pub mod Moved
pub mod Follow
pub mod KeptPlace
pub mod KeptForm
pub mod Recognised
