pub mod Arguments
pub mod Heard
pub mod Pieces
pub mod Recording
pub mod Capture
pub mod Steps
