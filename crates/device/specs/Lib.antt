pub mod Device
pub mod Wrapped
