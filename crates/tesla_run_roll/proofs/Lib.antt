pub mod Events
pub mod Texts
pub mod Flushed
pub mod Wanting
pub mod Meanings
