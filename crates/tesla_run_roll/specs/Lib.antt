pub mod Played
pub mod Roll
pub mod Arguments
pub mod Usage
