pub mod Histories
pub mod Made
pub mod Takes
pub mod Targets
pub mod Meanings
pub mod Wanting
pub mod Ended
pub mod Under
