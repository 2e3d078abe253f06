pub mod PlaceLaws
pub mod StepLaws
pub mod TableLink
pub mod TableCalls
