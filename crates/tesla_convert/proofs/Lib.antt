pub mod Unread
pub mod Held
mod Made
mod Wanting
mod Offsets
mod Opened
pub mod Closed
pub mod Meanings
