pub mod Field
pub mod Cipher
pub mod KeyExpansion
pub mod BlockCipher
