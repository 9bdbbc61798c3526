pub mod Arguments
pub mod Due
pub mod Lines
pub mod Relay
pub mod Steps
pub mod play
pub mod watch
