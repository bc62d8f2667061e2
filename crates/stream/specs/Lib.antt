pub mod Packing
pub mod Pages
pub mod Reading
pub mod Short
pub mod Utf8
