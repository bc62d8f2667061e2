pub mod Joiners
pub mod Joins
pub mod Ligatures
pub mod Pairs
pub mod Presentation
pub mod Shaping
pub mod Changes
pub mod Tabled
