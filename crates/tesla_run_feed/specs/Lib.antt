pub mod Arguments
pub mod Listing
pub mod Lines
pub mod Later
pub mod Status
pub mod Feeding
pub mod Due
pub mod Steps
