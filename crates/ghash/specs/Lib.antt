-- The definition of the field is passed on, for those who call this crate.
pub use Rattle.ghash_field.specs.Field
pub mod Ghash
