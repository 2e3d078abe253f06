pub mod KeyLengths
pub mod ExpansionLaws
pub mod Expanding
