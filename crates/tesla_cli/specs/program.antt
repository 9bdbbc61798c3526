pub mod About
pub mod Choice
pub mod Words
