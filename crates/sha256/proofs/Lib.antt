mod LowBits
pub mod Pieces
