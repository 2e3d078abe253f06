pub mod Gcm
pub mod Clauses
