pub mod GcmLaws
pub mod InPlace
pub mod HashParts
