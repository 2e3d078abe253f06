pub mod KeyLaws
pub mod StoredLaws
