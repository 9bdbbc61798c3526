pub mod Falling
pub mod StepsKept
