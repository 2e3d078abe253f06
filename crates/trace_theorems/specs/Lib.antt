pub mod Calls
pub mod Traces
