pub mod Beginning
pub mod AnyState
