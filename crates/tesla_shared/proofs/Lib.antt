pub mod Hearing
pub mod Passing
pub mod Writing
pub mod WholeLists
pub mod Whole
pub mod Due
pub mod Released
