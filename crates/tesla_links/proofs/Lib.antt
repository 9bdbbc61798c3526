pub mod Rings
pub mod Shown
pub mod Linked
pub mod Keyed
pub mod Grouped
