pub mod Arguments
pub mod Writing
pub mod Asking
pub mod Replying
pub mod Steps
pub mod lag
