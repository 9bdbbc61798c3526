pub mod Clocks
pub mod Faults
pub mod Links
pub mod Live
pub mod Outside
pub mod Posts
