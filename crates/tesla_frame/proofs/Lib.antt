pub mod Loop
pub mod Spelled
pub mod Both
pub mod Rising
pub mod Begun
pub mod InPlace
