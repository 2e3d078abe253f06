pub mod Reading
pub mod Clauses
pub mod Adds
