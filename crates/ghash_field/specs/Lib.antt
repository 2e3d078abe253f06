pub mod Field
pub mod Elements
pub mod Tables
