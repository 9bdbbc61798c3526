pub mod LastEntries
pub mod Texts
