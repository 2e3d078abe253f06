pub mod Doubling
pub mod LastBlock
pub mod Streaming
pub mod Beginning
pub mod AnyState
pub mod Lengths
