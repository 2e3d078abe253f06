pub mod Aes
pub mod Ghash
pub mod Gcm
pub mod Ccm
pub mod Cmac
