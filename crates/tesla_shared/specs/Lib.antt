pub mod Yields
pub mod Workers
pub mod Whole
pub mod Due
pub mod Taking
pub mod Receiving
