pub mod Announcements
pub mod Refusals
pub mod Demand
pub mod FiveFacts
pub mod Told
pub mod Numbers
