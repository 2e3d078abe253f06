pub use Rattle.ccm_formatting.specs.Formatting
pub mod General
pub mod Ccm
pub mod Clauses
