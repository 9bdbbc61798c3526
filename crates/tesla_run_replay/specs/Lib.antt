pub mod Replay
pub mod Under
pub mod Arguments
pub mod Usage
pub mod ReportText
pub mod Playing
pub mod Steps
