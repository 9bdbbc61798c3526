pub mod Due
pub mod Lines
pub mod Written
