pub mod Linear
pub mod FieldLaws
pub mod WordLaws
pub mod WideLaws
pub mod Turns
