pub mod Arguments
pub mod Drawn
pub mod Drawing
