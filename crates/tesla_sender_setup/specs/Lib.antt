pub mod Delays
pub mod Parameters
pub mod Made
