pub mod Records
pub mod Early
pub mod Usage
pub mod Playing
