pub mod Sizes
pub mod Steady
pub mod Spelled
pub mod Heads
pub mod TraceIs
pub mod Others
pub mod Judged
