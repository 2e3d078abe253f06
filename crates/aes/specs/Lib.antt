-- The definitions of FIPS 197, the rule of the table and the key sizes, for those who call this crate.
pub use Rattle.rijndael.specs.Field
pub use Rattle.rijndael.specs.Cipher
pub use Rattle.rijndael.specs.KeyExpansion
pub use Rattle.rijndael.specs.BlockCipher
pub use Rattle.aes_tables.specs.Tables
pub use Rattle.aes_key_expansion.specs.KeySizes
