pub mod Sized
pub mod TwoWords
pub mod Held
