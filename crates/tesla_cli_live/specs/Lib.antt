pub mod Commands
pub mod Allowed
