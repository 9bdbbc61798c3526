pub mod Arguments
pub mod Lines
pub mod Kinds
pub mod Numbered
pub mod Show
pub mod Steps
