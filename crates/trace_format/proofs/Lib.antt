pub mod FormatLaws
pub mod ByteLaws
