pub mod Records
pub mod Played
