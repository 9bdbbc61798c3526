pub mod Text
pub mod Names
pub mod Judged
pub mod Refused
pub mod Weak
