pub mod Calling
pub mod Exampled
pub mod Histories
pub mod Merging
pub mod Passing
pub mod Permissions
pub mod Owners
pub mod StepsKept
