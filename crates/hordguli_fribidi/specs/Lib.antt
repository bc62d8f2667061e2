pub mod Types
pub mod Points
pub mod Joining
pub mod Shapes
pub mod Levels
pub mod Lines
