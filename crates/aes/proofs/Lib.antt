-- The laws of FIPS 197's definitions, for those who call this crate.
pub use Rattle.rijndael.proofs.Lengths
pub mod KeySizeLaws
