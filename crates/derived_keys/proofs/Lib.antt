pub mod LabelLaws
pub mod Stored
