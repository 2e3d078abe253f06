pub mod Hmac
pub mod Running
