pub mod Judging
pub mod Spelled
pub mod Texts
pub mod Stops
pub mod Written
