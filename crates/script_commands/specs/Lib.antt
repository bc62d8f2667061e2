pub mod Commands
pub mod Parsed
