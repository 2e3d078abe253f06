pub mod Numbers
pub mod Xor
pub mod Same
pub mod Blocks
pub mod Maybe
