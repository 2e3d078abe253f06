pub mod Lengths
pub mod Inverse
pub mod LongerKeys
