pub mod Reading
pub mod Purposes
