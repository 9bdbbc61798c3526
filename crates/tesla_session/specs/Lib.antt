pub mod Wanted
pub mod Session
pub mod Allowed
pub mod Worked
