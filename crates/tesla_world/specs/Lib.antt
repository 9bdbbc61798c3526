pub mod World
pub mod Laws
pub mod Frames
pub mod Joint
