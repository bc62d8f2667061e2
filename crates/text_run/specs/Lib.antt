pub mod Counts
pub mod Pages
pub mod Streaming
pub mod TextRun
