pub mod Lists
pub mod Rings
pub mod Slots
pub mod Tables
pub mod Entries
pub mod Indexed
