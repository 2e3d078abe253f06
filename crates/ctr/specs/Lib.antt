pub mod Ctr
pub use Rattle.aes.specs.BlockCipher
