pub mod StepLaws
pub mod LineLaws
pub mod Lengths
pub mod Replayed
pub mod Examples
