pub mod RoundTrip
pub mod Lists
pub mod ByCalls
pub mod Apart
pub mod Editions
pub mod Traces
