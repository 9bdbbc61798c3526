pub mod Arguments
pub mod Allowed
pub mod Follow
pub mod Status
pub mod Text
pub mod Usage
