pub mod Exports
pub mod Traces
