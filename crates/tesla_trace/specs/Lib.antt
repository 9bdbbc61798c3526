pub mod Trace
pub mod Entries
pub mod Names
pub mod Parsing
pub mod Grammar
pub mod Shown
