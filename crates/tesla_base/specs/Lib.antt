pub mod Field
pub mod Number
pub mod Prefix
pub mod Version
pub mod Tag
pub mod Members
