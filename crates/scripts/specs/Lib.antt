pub mod Scripts
pub mod Runs
pub mod Codes
