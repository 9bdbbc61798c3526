pub mod Ask
pub mod Reply
pub mod KeyText
pub mod Lag
