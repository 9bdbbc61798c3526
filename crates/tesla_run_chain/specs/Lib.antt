pub mod Arguments
pub mod Chain
pub mod Usage
