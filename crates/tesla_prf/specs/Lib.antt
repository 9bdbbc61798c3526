pub mod Begun
pub mod Hmac
pub mod Keys
