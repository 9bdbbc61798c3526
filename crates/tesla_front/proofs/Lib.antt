pub mod SmallTexts
pub mod Openings
pub mod Behind
pub mod Reported
pub mod Consoles
pub mod Printing
pub mod Tables
mod Streams
mod Slashes
pub mod Commands
pub mod WordLists
pub mod Statuses
mod Among
mod Parts
