pub mod HeaderThere
