pub mod NextKey
pub mod KeySizes
