pub mod Choices
pub mod Given
pub mod Program
pub mod Settings
pub mod Sources
pub mod Status
