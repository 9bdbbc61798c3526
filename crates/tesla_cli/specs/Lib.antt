pub mod Commands
pub mod program
