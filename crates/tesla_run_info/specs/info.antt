pub mod Arguments
pub mod Calendar
pub mod Left
pub mod Lines
pub mod Rows
pub mod Telling
