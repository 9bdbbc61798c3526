pub mod Stream
pub mod History
