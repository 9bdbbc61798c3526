pub mod Among
pub mod Given
pub mod Once
