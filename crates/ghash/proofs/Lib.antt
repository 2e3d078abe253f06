pub mod GhashLaws
