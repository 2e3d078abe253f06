pub mod ByNumber
pub mod Inner
pub mod Opening
pub mod Sealing
pub mod Chained
