pub mod Schedule
pub mod Safe
