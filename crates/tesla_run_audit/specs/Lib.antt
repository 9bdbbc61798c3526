pub mod Arguments
pub mod Audit
pub mod Files
pub mod Judging
pub mod trace
pub mod show
